mod Soundness
mod Clearing
mod Changes
