pub mod LineFeeds
