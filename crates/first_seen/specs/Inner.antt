-- Where keys are looked up.
use Rattle.std.specs.Prelude.{◌≡◌, ℕ, Bool, true, false, List, Option, Some, None, slice_get}
use Rattle.std.specs.List.{list_any}

module _ {K : Type 0} (eq : K → K → Bool) where
  -- a look-up of k tells the place of a key that is equal to k, if there is one
  abbrev pub Tells : List K → K → Option ℕ → Type 0
  Tells keys k None = list_any (eq k) keys ≡ false
  Tells keys k (Some i) = (stored : K) × (slice_get keys i ≡ Some stored) × (eq k stored ≡ true)

  -- so does the look-up of each key
  abbrev pub ArePlaces : List K → (K → Option ℕ) → Type 0
  ArePlaces keys look_up = (k : K) → Tells keys k (look_up k)
