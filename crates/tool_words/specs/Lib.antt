-- how programs end
pub mod Endings
-- what words ask for
pub mod Words
-- what a file is that isn't a module
pub mod NotAModules
