mod Ending
mod Failing
mod JobsBeside
mod Printing
