use Rattle.wrewrite_c.specs.Outcomes.{accepted, refused}
use Rattle.wrewrite_c.proofs.wrewrite_raw_check.Goals as goal

pub returns-in-Ok : goal.returns-in-Ok
returns-in-Ok c = accepted c.of_sizes.ensures.status c.in-Ok.ensures.accepted c.of_sizes.ensures.sizes

pub returns-in-Err : goal.returns-in-Err
returns-in-Err c = refused c.in-Err.stop c.in-Err.ensures.refused c.of_stop.ensures.stopped c.of_stop.ensures.sizes
