use Rattle.wrewrite_c.specs.Outcomes.{valid, invalid}
use Rattle.wrewrite_c.proofs.wrewrite_raw_validate.Goals as goal

pub returns-in-Ok : goal.returns-in-Ok
returns-in-Ok c = valid c.of_sizes.ensures.status c.in-Ok.ensures.valid c.of_sizes.ensures.sizes

pub returns-in-Err : goal.returns-in-Err
returns-in-Err c = invalid c.in-Err.stop c.in-Err.ensures.refused c.outcome_of.ensures.stopped c.outcome_of.ensures.sizes
