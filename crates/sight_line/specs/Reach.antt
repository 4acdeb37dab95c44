-- The points between which sight is asked.
pub use Rattle.room_layout.specs.Positions.{IsCoordinate, IsInReach}
