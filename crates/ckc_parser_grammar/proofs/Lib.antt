pub mod Readings
pub mod SingleWords
mod Terminals
pub mod OneMeaning
pub mod Ahead
mod OneType
mod Heads
mod OneExpression
pub mod Roles
mod OneStatement
pub mod OneItem
mod Whole
mod Early
mod TokenOrder
mod PlacedType
mod PlacedExpression
mod PlacedStatement
mod PlacedItem
pub mod FewNodes
pub mod Paths
pub mod TypePaths
pub mod ExpressionPaths
pub mod StatementPaths
pub mod ItemPaths
pub mod OneFault
pub mod Lists
mod Forms
mod Failing
mod TypeForms
mod MoreForms
mod ExpressionLinks
mod PrimaryForms
mod BuiltBounds
mod ExpressionForms
mod SecondToken
mod BoundsFails
mod ExpressionFails
mod Starting
mod ConstantForms
mod DeclarationForms
mod AssignmentForms
mod HeadForms
mod SimpleForms
mod StatementForms
mod StatementFailing
mod MemberForms
mod Pasts
mod ItemForms
mod ItemPasts
mod ItemFailing
pub mod WholeForms
mod Prefixes
mod Reading
mod ReadTypes
mod ReadExpressions
mod ReadDeclarations
mod ReadStatements
pub mod ReadItems
