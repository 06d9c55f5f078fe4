mod BookLaws
mod GridLaws
mod LineNumbers
