use Rattle.hb_look.proofs.Runs.{run_on, run_within}
use Rattle.hb_look.proofs.Orders.{in_order_with}
use Rattle.hb_look.proofs.laws.no_look_goes_back.Goals as goal

pub returns-clause-in_order : goal.returns-clause-in_order
returns-clause-in_order c = in_order_with

pub returns-clause-run : goal.returns-clause-run
returns-clause-run c = λ log start looks run stand. run_on log start looks run stand.are_true

pub returns-clause-reach : goal.returns-clause-reach
returns-clause-reach c = λ log start looks run stand. run_within log start looks run stand.are_true
