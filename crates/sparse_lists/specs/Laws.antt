-- The laws that stand on the functions of `laws`: for lists of natural numbers with natural amounts.
use Rattle.std.specs.Prelude.{◌≡◌, ℕ, ◌+◌, eqb, List, ◌++◌}
use Rattle.std.specs.Ordering.{nat_cmp}
use Rattle.sparse_lists.specs.SparseLists.{Amounts, IsCanonical, amount, canonical}

-- natural numbers, added as such
abbrev pub natural_amounts : Amounts ℕ
natural_amounts = record { zero = 0; add = ◌+◌; is_zero = λ n. eqb n 0 }

-- the keys of the canonical list rise and it has no zero; it has the list's amount at each key; and it is the only such list
abbrev pub CanonicalListIsTheOnlyOne : Type 0
CanonicalListIsTheOnlyOne =
    (ts : List (ℕ × ℕ)) → IsCanonical nat_cmp natural_amounts (canonical nat_cmp natural_amounts ts)
    × ((k : ℕ) → amount nat_cmp natural_amounts k (canonical nat_cmp natural_amounts ts) ≡ amount nat_cmp natural_amounts k ts)
    × ((us : List (ℕ × ℕ)) → IsCanonical nat_cmp natural_amounts us
    → ((k : ℕ) → amount nat_cmp natural_amounts k us ≡ amount nat_cmp natural_amounts k ts)
    → us ≡ canonical nat_cmp natural_amounts ts)

-- two lists one after the other have the sum of their amounts at each key
abbrev pub AppendedListsAddUp : Type 0
AppendedListsAddUp =
    (ts us : List (ℕ × ℕ)) (k : ℕ) → amount nat_cmp natural_amounts k (canonical nat_cmp natural_amounts (ts ++ us))
    ≡ amount nat_cmp natural_amounts k ts + amount nat_cmp natural_amounts k us
