-- Delivery planned in memory, in the order to read it: Lasts (numbers that a plan has given), Tallies (a message under way), Deliveries (what
-- planning comes to), Laws; WorkedRules and WorkedDelivery are rows worked through.
pub mod Lasts
pub mod Tallies
pub mod Deliveries
pub mod Laws
pub mod WorkedRules
pub mod WorkedDelivery
