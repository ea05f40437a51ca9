-- the marks of items by their numbers
pub mod MarkLemmas
-- references to items
pub mod EdgeLemmas
-- what is copied: one part after the other; of items, types and operators; of kinds; and of constant expressions
pub mod CopyLemmas
pub mod ItemCopies
pub mod KindCopies
pub mod OperatorCopies
-- items that operators name; what is gathered of an item
pub mod NamedLemmas
pub mod GatherLemmas
-- parts of a vector, in a loop
pub mod VectorLemmas
-- parts of functions with new numbers
pub mod FollowedLemmas
pub mod OrderLemmas
-- functions that have to be declared
pub mod DeclaringLemmas
-- steps, one after the other
pub mod SeveralStepsLemmas
pub mod SectionStepLemmas
-- what is gathered grows; of the items of a section, and of all sections
pub mod GrowthLemmas
pub mod GatherStepLemmas
-- types that are alike
pub mod AlikeLemmas
-- what is reached is left, and what is left is copied
pub mod ReachedLemmas
pub mod KeptCopies
pub mod GatheredCopies
-- what is written for an item
pub mod WritingLemmas
-- what is written for a section, and for a module
pub mod LeftSectionLemmas
-- why items aren't written
pub mod RefusalLemmas
