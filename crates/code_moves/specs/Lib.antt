-- what makes the runs and the locals of a body one that is written anew, and bodies those of a module
pub mod Order
pub mod OrderedBodies
-- where an address goes, and what a body, a run and a local are for it
pub mod Moves
-- the runs of a body while its operators are pushed
pub mod Building
-- what is claimed of addresses
pub mod Laws
