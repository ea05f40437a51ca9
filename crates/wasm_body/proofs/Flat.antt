-- What is written of a body, operator by operator, without its tree.
-- what is written operator by operator is the text of the rewritten body
pub mod Texts
-- with names, and with numbers
pub mod Numbers
-- the locals that are named
pub mod Locals
-- what was written so far, and the rest
pub mod Fronts
-- the first fault doesn't depend on locations
pub mod OtherLocations
-- small bodies, computed
pub mod Examples
