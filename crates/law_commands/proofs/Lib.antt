mod EachCommand
