-- Tables of the texts of a kind.
use Rattle.std.proofs.Common.{◌≡◌, ℕ, ◌<◌, List, [], map, length, get_or, Bor, sym, ap, ◌∙◌, arith}
use Rattle.std.proofs.lemmas.List.{get_or-map, length-map}
use Rattle.geo_program.specs.declared.names.Name.{Name}
use Rattle.geo_program.specs.declared.names.NameKind.{NameKind}
use Rattle.geo_program.specs.declared.names.NameKind.TheVariants.{Point, Param, Line}
use Rattle.geo_program.specs.Names.{name_text, names_of}
use Rattle.geo_program.specs.Inner.Printing.{whole_scope}
use Rattle.geo_program.specs.WellFormed.{empty_scope}
use Rattle.geo_program.proofs.ScopeLemmas.{declared_of, declared_of-scope_of}

-- as many names of a kind as are declared
pub length-names_of : (kind : NameKind) (names : List Name) → length (names_of kind names) ≡ declared_of kind (whole_scope names)
length-names_of Point names = omega (arith, declared_of-scope_of Point empty_scope names)
length-names_of Param names = omega (arith, declared_of-scope_of Param empty_scope names)
length-names_of Line names = omega (arith, declared_of-scope_of Line empty_scope names)

module _ (kind : NameKind) (names : List Name) (texts : List (Bor (List ℕ))) (same : map (λ text. text.now) texts ≡ names_of kind names)
    (k : ℕ) (within : k < declared_of kind (whole_scope names)) where
  -- the table has a place for each number
  pub table_within : k < length texts
  table_within =
      let one : length (names_of kind names) ≡ declared_of kind (whole_scope names) = length-names_of kind names in
      let two : length (map (λ text. text.now) texts) ≡ length texts = length-map texts (λ text. text.now) in
      let three : length (map (λ text. text.now) texts) ≡ length (names_of kind names) = ap length same in
      omega arith

  -- and there stands the name of this number
  pub table_text : (text : Bor (List ℕ)) → text ≡ get_or texts k text → text.now ≡ name_text kind names k
  table_text text at =
      ap (λ t. t.now) at
      ∙ sym (get_or-map (λ t. t.now) texts k text [] table_within)
      ∙ ap (λ l. get_or l k []) same
