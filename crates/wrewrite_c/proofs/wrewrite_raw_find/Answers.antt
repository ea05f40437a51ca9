use Rattle.wrewrite_c.specs.Outcomes.{found, not_read}
use Rattle.wrewrite_c.proofs.wrewrite_raw_find.Goals as goal

pub returns-in-Ok : goal.returns-in-Ok
returns-in-Ok c = found c.in-Ok.named c.in-Ok.ensures.found c.of_named.ensures.named c.of_named.ensures.sizes

pub returns-in-Err : goal.returns-in-Err
returns-in-Err c = not_read c.in-Err.stop c.in-Err.ensures.stops c.of_stop.ensures.stopped c.of_stop.ensures.sizes
