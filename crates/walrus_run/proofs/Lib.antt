-- the demo module's maps; each id of an old index has a number; the used locals are there, can be declared, and have numbers
mod DemoMaps
mod DemoNumbers
mod DemoLocals
-- an accepted body over the demo module can be written, and the result is that of the accepted body
mod RewritingLemmas
-- an operator of an accepted body has its name in any frames; the remaining operators are read one by one; the result is that
-- of the accepted body
mod NamesAnywhere
mod Reading
mod ReadBodies
