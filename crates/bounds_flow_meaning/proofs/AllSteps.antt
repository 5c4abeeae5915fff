-- The steps of flows, put together.
use Rattle.bounds_flow_meaning.specs.Laws.{FlowsHold}
use Rattle.bounds_flow_meaning.proofs.Steps.{forgotten_one, enter_fits, enter_holds, enter_valid_holds, grow_but, grow_fits, grow_holds, number_holds, pointer_holds}
use Rattle.bounds_flow.proofs.Variables.{held_below}
use Rattle.bounds_flow_meaning.proofs.Lengths.{length_holds}
use Rattle.bounds_flow_meaning.proofs.Rejoined.{again_first, again_second, bundle_fits}
use Rattle.bounds_flow_meaning.proofs.Widening.{widen_fits, widen_holds}
use Rattle.bounds_flow_meaning.proofs.Ways.{assume_fits, assume_holds, entail_holds, first_fits, first_holds, head_fits, leave_fits, narrow_valid, second_fits, second_holds, settle_fits}

pub flows_hold : FlowsHold
flows_hold structs f flow = record {
  enter = enter_holds structs f;
  enter_valid = enter_valid_holds structs f;
  enter_between = enter_fits structs f;
  leave = λ x s. leave_fits structs f flow s x;
  assign_int = λ x to s old z lt below there has is h. number_holds structs f flow s x old z lt there has h to below is;
  forget = forgotten_one structs f;
  assign_pointer = pointer_holds structs f;
  bundle = bundle_fits structs f;
  settle = λ s. settle_fits structs f flow s;
  assume = λ test truth s. assume_holds structs f flow s test truth;
  assume_between = λ test truth s. assume_fits structs f flow s test truth;
  widen = λ p index s below zeros read. widen_holds structs f flow s p index below (held_below f.vars f.held p flow.variables.below).bounds zeros read;
  widen_between = λ p index s below zeros read. widen_fits structs f flow s p index below (held_below f.vars f.held p flow.variables.below).bounds zeros read;
  assign_length = λ x p s old count lt there has counted h. length_holds structs f flow s x p old count lt there has counted h;
  join_first = λ g s other beside. first_fits structs f g flow other beside.vars s;
  join_second = λ g s other beside. second_fits structs f g flow other beside.vars s beside;
  tested_first = λ g s other tested. first_holds structs f g flow other tested.vars s tested;
  tested_second = λ g s other tested. second_holds structs f g flow other tested.vars s tested;
  rejoin_first = λ before g s start other to_f to_g was. again_first structs before f g start flow other to_f to_g s was;
  rejoin_second = λ before g s start other to_f to_g was. again_second structs before f g start flow other to_f to_g s was;
  enter_loop = λ changed s t. head_fits structs f flow changed s t;
  grow = λ s t grows same. grow_holds structs s t grows same f;
  grow_but = λ p s t grows same. grow_but structs s t grows same f p;
  grow_between = λ s t grows same. grow_fits structs s t grows same f;
  entail = λ a b s l r e met. entail_holds structs f flow s met a b l r e;
  narrow = λ b asked l s below asked_below is base found met. narrow_valid structs f flow s met b asked l below asked_below is base found;
}
