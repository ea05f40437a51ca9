-- the parts of a module that don't change; the contracts of `rewrite_body` and `parse` for one body, rewritten or refused
pub mod ModuleLemmas
pub mod RewritingLemmas
pub mod RefusalLemmas
-- the bytes that are written, piece by piece: to a writer; one body after the other; new sections in their places; one section
-- after the other
pub mod WritingLemmas
pub mod ToldLemmas
pub mod CodeLemmas
pub mod KeptLemmas
pub mod KeptPairLemmas
pub mod KeptPieceLemmas
pub mod NewSectionLemmas
pub mod SectionLemmas
-- names of custom sections
pub mod NameLemmas
-- a data segment more
pub mod DataLemmas
-- function types that are written, and the first one with given lists
pub mod TypeLemmas
-- a module that is written from bodies that are kept, as they were written or as functions were changed
pub mod WriterLemmas
pub mod ChangedLemmas
-- the items of a module that is read, one more at a time
pub mod ReadingLemmas
pub mod TypeSectionLemmas
pub mod ReadStepLemmas
pub mod SectionsReadLemmas
pub mod SpelledSectionLemmas
-- the sections that the bytes of a module are
pub mod ModuleLawLemmas
-- what the steps of a reading leave; the code section, and the bodies in it
pub mod ComponentLemmas
pub mod ModuleCodeLemmas
-- bodies one after the other, which are checked, or whose functions are visited
pub mod PassedLemmas
pub mod CheckedLemmas
pub mod VisitedLemmas
-- the module that is written consists of the same as its source
pub mod SameModuleLemmas
pub mod ReadAgainLemmas
pub mod Again
-- the sections of a module that is written, their order, their contents and its bodies; and what sections spell
pub mod WrittenSectionLemmas
pub mod RankLemmas
pub mod SectionOrderLemmas
pub mod SectionContentLemmas
pub mod SameFunctionLemmas
pub mod WrittenBodyLemmas
pub mod ChangedBodyLemmas
pub mod SpelledModuleLemmas
pub mod ReadAsWrittenLemmas
-- numbers in hexadecimal, and the lines of a location map
pub mod DigitLemmas
pub mod MapLineLemmas
mod MapTextExamples
