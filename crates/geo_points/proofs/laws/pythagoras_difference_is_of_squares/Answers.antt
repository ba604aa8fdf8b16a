use Rattle.geo_points.proofs.Signs.{pythagoras_difference-squares, pythagoras_difference-swap, pythagoras_difference-length}
use Rattle.geo_points.proofs.laws.pythagoras_difference_is_of_squares.Goals as goal

pub returns : goal.returns
returns c = record {
  squares = pythagoras_difference-squares;
  swapped = pythagoras_difference-swap;
  length = pythagoras_difference-length;
}
