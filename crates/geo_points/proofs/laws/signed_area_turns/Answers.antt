use Rattle.geo_points.specs.Points.{signed_area}
use Rattle.ring_laws.proofs.Quotients.{same_of_zero, zero_of_same}
use Rattle.geo_points.proofs.Signs.{signed_area-doubled, signed_area-swap, signed_area-turn, signed_area-twice}
use Rattle.geo_points.proofs.Collinear.{collinear_null}
use Rattle.geo_points.proofs.laws.signed_area_turns.Goals as goal

pub returns : goal.returns
returns c = record {
  doubled = signed_area-doubled;
  swapped = signed_area-swap;
  turned = signed_area-turn;
  repeated = signed_area-twice;
  collinear = λ A B C. (
    λ h. (collinear_null A B C).0 (zero_of_same (signed_area A B C) h),
    λ h. same_of_zero (signed_area A B C) ((collinear_null A B C).1 h),
  );
}
