-- The numbers that the commands of a cited program have at an instance.
use Rattle.std.proofs.Common.{◌≡◌, ℕ, suc, ◌+◌, ◌<◌, ◌≤◌, Bool, true, false, ⊎_elim, get_or, pos, Option, Some, None, List, [], ◌∷◌, refl, sym, ◌∙◌, ap, subst, arith}
use Rattle.std.proofs.Math.Nat.{eq-or-lt_of_le}
use Rattle.ring_laws.specs.Fraction.{Fraction, whole}
use Rattle.geo_points.specs.Placements.{Placement}
use Rattle.geo_terms.specs.Stores.{Store}
use Rattle.geo_program.specs.declared.commands.Command.{Command}
use Rattle.geo_program.specs.declared.commands.Command.TheVariants.{Param, Online, Oncircle}
use Rattle.geo_program.specs.declared.names.NameKind.{NameKind}
use Rattle.geo_program.specs.declared.names.NameKind.TheVariants as kind
use Rattle.geo_lowering.specs.Counting.{counted, has_number, named, next_number, next_point}
use Rattle.geo_lowering.specs.Lowering.{Layout}
use Rattle.geo_lowering.specs.declared.version.Version.{Version}
use Rattle.geo_lowering.proofs.Exists.{params_past}
use Rattle.geo_lowering.proofs.Laying.{AreLaid}
use Rattle.geo_library.proofs.CommandGoals.{AreZero, IsOwn, MayOwn, own_number}

module _ (nodes : Store) (R : Placement) where
  -- each command, whose points begin at x, has its number, and its goals are 0
  abbrev pub AreReady : ℕ → List Command → Type 0
  AreReady x [] = Unit {0}
  AreReady x (c ∷ cs) = (MayOwn R.point (R.point x) c × AreZero nodes R (record { 0 = x }) c) × AreReady (counted kind.Point (named c) x) cs

  -- the numbers from m on are those of the commands: a parameter's is the one that is read, and each other command's is its own
  abbrev pub AreOwn : (ℕ → Fraction) → ℕ → ℕ → ℕ → List Command → Type 0
  AreOwn look x y m [] = Unit {0}
  AreOwn look x y m (c ∷ cs) =
      ((named c ≡ Some kind.Param → look m ≡ R.number y) × IsOwn R.point (R.point x) (look m) c)
      × AreOwn look (counted kind.Point (named c) x) (counted kind.Param (named c) y) (next_number m c) cs

  -- a command without a number fits any
  idle : (x y : ℕ) (t : Fraction) (c : Command) → has_number c ≡ false → (named c ≡ Some kind.Param → t ≡ R.number y) × IsOwn R.point (R.point x) t c
  idle x y t Param e = let b : true ≡ false = e in cc
  idle x y t (Online a b) e = let f : true ≡ false = e in cc
  idle x y t (Oncircle o a) e = let f : true ≡ false = e in cc
  idle x y t c e = (λ k. cc, tt)

  -- the number of a command
  number_of : (x y : ℕ) (c : Command) → MayOwn R.point (R.point x) c → AreZero nodes R (record { 0 = x }) c
      → (t : Fraction) × (named c ≡ Some kind.Param → t ≡ R.number y) × IsOwn R.point (R.point x) t c
  number_of x y Param m z = (R.number y, λ k. refl, tt)
  number_of x y (Online a b) m z = let own = own_number nodes R (record { 0 = x }) (Online a b) m z in (own.0, λ k. cc, own.1)
  number_of x y (Oncircle o a) m z = let own = own_number nodes R (record { 0 = x }) (Oncircle o a) m z in (own.0, λ k. cc, own.1)
  number_of x y c m z = (whole (pos 0), λ k. cc, tt)

  -- the list of numbers, from some place on, is these
  abbrev pub IsFrom : (ℕ → Fraction) → ℕ → List Fraction → Type 0
  IsFrom look m ns = (i : ℕ) → look (m + i) ≡ get_or ns i (whole (pos 0))

  pub numbers_exist : (cs : List Command) (x y : ℕ) → AreReady x cs → (ns : List Fraction) × ((look : ℕ → Fraction) (m : ℕ) → IsFrom look m ns → AreOwn look x y m cs)
  numbers_exist [] x y h = ([], λ look m f. tt)
  numbers_exist (c ∷ cs) x y h =
      let x' = counted kind.Point (named c) x in let y' = counted kind.Param (named c) y in
      let rest = numbers_exist cs x' y' h.1 in
      by (has_number c) refl x' y' rest
    where
      by : (b : Bool) → has_number c ≡ b → (x' y' : ℕ) → ((ns : List Fraction) × ((look : ℕ → Fraction) (m : ℕ) → IsFrom look m ns → AreOwn look x' y' m cs))
          → (ns : List Fraction) × ((look : ℕ → Fraction) (m : ℕ) → IsFrom look m ns
          → ((named c ≡ Some kind.Param → look m ≡ R.number y) × IsOwn R.point (R.point x) (look m) c)
          × AreOwn look x' y' (next_number m c) cs)
      by true e x' y' rest =
          let own = number_of x y c h.0.0 h.0.1 in (
            own.0 ∷ rest.0,
            λ look m f.
                let first : look m ≡ own.0 = (let z : m ≡ m + 0 = omega arith in ap look z) ∙ f 0 in
                let next : next_number m c ≡ suc m = ap (λ b. elim b [ true ↦ suc m | false ↦ m ]) e in (
                  (λ k. first ∙ own.1 k, subst (λ t. IsOwn R.point (R.point x) t c) (sym first) own.2),
                  subst (λ i. AreOwn look x' y' i cs) (sym next) (rest.1 look (suc m) (λ i. (let z : suc m + i ≡ m + suc i = omega arith in ap look z) ∙ f (suc i))),
                ),
          )
      by false e x' y' rest = (
        rest.0,
        λ look m f.
            let next : next_number m c ≡ m = ap (λ b. elim b [ true ↦ suc m | false ↦ m ]) e in
            (idle x y (look m) c e, subst (λ i. AreOwn look x' y' i cs) (sym next) (rest.1 look m f)),
      )

  -- so the parameters have the numbers that are read
  pub params_read : (version : Version) (l : Layout) (look : ℕ → Fraction) (cs : List Command) (x x' y j n m : ℕ) → AreLaid version l x' y j n m cs → AreOwn look x y m cs
      → (t : ℕ) → y ≤ t → t < params_past y cs → look (l.param t) ≡ R.number t
  params_read version l look [] x x' y j n m d o t low high = absurd (omega arith)
  params_read version l look (c ∷ cs) x x' y j n m d o t low high =
      by (named c) refl
      (λ up. params_read version l look cs (counted kind.Point (named c) x) (counted kind.Point (named c) x')
      (counted kind.Param (named c) y) (counted kind.Line (named c) j) (next_point version n c) (next_number m c) d.1 o.1 t up high)
    where
      by : (k : Option NameKind) → named c ≡ k → (counted kind.Param (named c) y ≤ t → look (l.param t) ≡ R.number t) → look (l.param t) ≡ R.number t
      by None e rest = rest (subst (λ k. counted kind.Param k y ≤ t) (sym e) low)
      by (Some kind.Point) e rest = rest (subst (λ k. counted kind.Param k y ≤ t) (sym e) low)
      by (Some kind.Line) e rest = rest (subst (λ k. counted kind.Param k y ≤ t) (sym e) low)
      by (Some kind.Param) e rest =
          ⊎_elim (λ (same : y ≡ t). ap (λ i. look (l.param i)) (sym same) ∙ ap look (d.0.param e) ∙ o.0.0 e ∙ ap R.number same)
          (λ (less : y < t). rest (subst (λ k. counted kind.Param k y ≤ t) (sym e) (omega arith))) (eq-or-lt_of_le low)
