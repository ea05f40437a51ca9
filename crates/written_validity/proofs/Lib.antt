-- validity at other places
mod OtherPlaces
-- names with other locals; steps by names; the names of the source's operators, and of those that are written
mod RenamedNames
mod NamedSteps
mod SourceNames
mod WrittenNames
-- the source's locals by their ids
mod SourceLocals
-- the operators that are written; their validity; the law
mod WrittenOperators
mod WrittenValid
mod WrittenIsValid
-- the frames of a body are closed
mod ClosedBodies
-- an example that computes
mod Examples
