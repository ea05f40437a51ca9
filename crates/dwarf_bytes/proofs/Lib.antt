-- appending one number after another
pub mod Appending
-- what is written is read
pub mod Fixed
pub mod Padded
-- the patches of a section
pub mod PatchLemmas
pub mod ChangeLaws
pub mod MergingLemmas
-- what a reader takes
pub mod Local
pub mod Shorter
-- lists by ascending keys
pub mod SortingLemmas
