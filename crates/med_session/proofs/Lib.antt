mod Leading
mod AddingLists
mod Tables
mod Seats
mod CursorLists
mod Turns
mod ClosingSeats
