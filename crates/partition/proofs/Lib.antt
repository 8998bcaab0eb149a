mod Asks
mod Counted
mod Firsts
mod Opening
mod Rounds
mod Sounds
