-- of the types of sequences the algorithm asks only for the parameters of tags
pub mod TagsDecide
-- names by indices, and so the verdicts of accepted bodies
pub mod RawNames
pub mod RawVerdicts
-- examples that pin the definitions
pub mod Examples
-- declared supertypes, step by step
pub mod Supertypes
-- lists of types that match
pub mod MatchingLists
-- numbers at which a list has true
pub mod Marked
-- the parts of the test for equal groups
pub mod SameGroups
-- keys of groups, which tell which are equal
pub mod GroupKeys
-- places in a map by keys
pub mod KeyPlaces
-- the types of groups, as one more is added
pub mod Placing
-- which definitions are valid
pub mod ValidDefinitions
