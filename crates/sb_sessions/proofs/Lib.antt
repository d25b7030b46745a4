mod LeastEnd
mod Placed
mod Seats
mod Sorted
