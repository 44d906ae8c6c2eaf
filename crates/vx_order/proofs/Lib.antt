mod Children
mod Smaller
mod Splits
