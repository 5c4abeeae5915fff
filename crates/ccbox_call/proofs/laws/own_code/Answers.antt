use Rattle.ccbox_call.proofs.OwnActs.{it_stores, it_asks, it_divides, it_lacks, it_does_nothing_else, it_ends}
use Rattle.ccbox_call.proofs.laws.own_code.Goals as goal

pub returns : goal.returns
returns c = record { stores = it_stores; asks = it_asks; divides = it_divides; lacks = it_lacks; no_others = it_does_nothing_else; bodiless = it_ends }
