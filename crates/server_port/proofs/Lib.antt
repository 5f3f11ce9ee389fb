mod Followed
mod Handed
mod Holds
mod Offers
mod Passing
mod SeatRuns
mod Whys
