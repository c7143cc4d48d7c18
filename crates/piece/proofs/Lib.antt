mod Fronts
mod Passes
mod Seen
mod Graded
mod Replays
