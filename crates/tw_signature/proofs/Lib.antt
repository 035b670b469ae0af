pub mod Numbers
pub mod NewestNames
pub mod Families
pub mod FamilyConstants
pub mod Marking
pub mod KeptMarks
