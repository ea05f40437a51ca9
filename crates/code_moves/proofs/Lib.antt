-- where a bisection ends of runs, of locals and of bodies, and what is found there
pub mod Bisection
pub mod RunSearch
pub mod LocalSearch
pub mod BodySearch
-- laws: of the runs of a body, and of bodies
pub mod RunLaws
pub mod BodyLaws
-- the runs of a body while its operators are pushed
pub mod Building
pub mod NextRuns
-- examples
mod Examples
