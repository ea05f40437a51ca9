-- steps that are repeated, and one more
pub mod RepeatingLemmas
-- custom sections, one after the other
pub mod NamedSectionLemmas
-- what an import is
pub mod DescriptionLemmas
-- exports that are added at once
pub mod NewExportLemmas
-- what is found
pub mod FoundLemmas
-- an export that is found
pub mod SeekingLemmas
