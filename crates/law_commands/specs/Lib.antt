pub mod EachCommand
