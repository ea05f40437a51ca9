-- the bytes of the operators of a body
pub mod Bodies
-- what a listener is told of bodies, the lines of a location map, and what sinks of large bodies have to show
pub mod WantedPairs
pub mod ToldBodies
pub mod MapText
pub mod Pieces
-- how a module may change while its bodies are rewritten (`Extends`), and a body that is parsed, rewritten or changed
pub mod RewrittenCode
-- why a body is refused
pub mod Refusals
-- the bytes that are written for a section and after it, and the module that is written; and what a listener is told of it
pub mod WrittenModules
pub mod ToldModules
-- the sections of the module that is written, and what is read of it
pub mod WrittenSections
-- one more import
pub mod ImportedFunctions
-- items that are added after those of a section
pub mod AddedItems
pub mod AddedFunctions
-- bodies that are kept from the first pass to the second, as they were changed
pub mod KeptParts
pub mod KeptCode
pub mod KeptPieces
-- a module that is written with them, and what a listener is told of it
pub mod ChangedModules
-- what a module that was read consists of, and the steps in which it is read; and what this tells of the bytes
pub mod ReadModules
pub mod ReadFrom
-- the sections of a module that was read, in order; the code section, and the bodies in it
pub mod ReadSections
pub mod ModuleCode
-- modules whose bodies are accepted, and functions that are visited
pub mod AcceptedModules
pub mod VisitedFunctions
-- the module that is written consists of the same as its source
pub mod SameModules
-- a module that is read from what was written
pub mod ReadAgain
-- the numbers under which bodies are written
pub mod WrittenNumbers
