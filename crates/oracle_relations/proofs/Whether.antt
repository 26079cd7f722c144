-- One answer or the other.
use Rattle.std.proofs.Common.{◌≡◌, Bool, true, false, refl}
use Rattle.sm_model.specs.Answers.{Answer, whether◌then◌otherwise◌}

pub whether_then : (b : Bool) (x y : Answer) → b ≡ true → (whether b then x otherwise y) ≡ x
unfolding whether◌then◌otherwise◌
whether_then b x y e = rw e refl

pub whether_otherwise : (b : Bool) (x y : Answer) → b ≡ false → (whether b then x otherwise y) ≡ y
unfolding whether◌then◌otherwise◌
whether_otherwise b x y e = rw e refl
