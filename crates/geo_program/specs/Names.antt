-- Names by kind and number.
use Rattle.std.specs.Prelude.{ℕ, Bool, true, false, Some, None, List, [], slice_index_or, if◌then◌else◌}
use Rattle.std.specs.List.{filter_map}
use Rattle.geo_program.specs.declared.names.Name.{Name}
use Rattle.geo_program.specs.declared.names.NameKind.{NameKind}
use Rattle.geo_program.specs.declared.names.NameKind.TheVariants.{Point, Param, Line}

-- both are the same kind
abbrev pub is_kind : NameKind → NameKind → Bool
is_kind Point Point = true
is_kind Param Param = true
is_kind Line Line = true
is_kind _ _ = false

-- the texts of the names of a kind, in order of declaration
abbrev pub names_of : NameKind → List Name → List (List ℕ)
names_of kind names = filter_map (λ name. if is_kind name.kind kind then Some name.text else None) names

-- the text of the name of this kind and number
abbrev pub name_text : NameKind → List Name → ℕ → List ℕ
name_text kind names k = slice_index_or (names_of kind names) k []
