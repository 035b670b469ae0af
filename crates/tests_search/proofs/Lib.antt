pub mod EachLeaf
