-- Going through lexemes, whatever their places.
use Rattle.std.proofs.Common.{◌≡◌, ℕ, List, [], ◌∷◌, ◌++◌, map, Some, None, refl, ap, ◌∙◌}
use Rattle.std.specs.Prelude.{Option}
use Rattle.std.proofs.lemmas.List.{append_assoc}
use Rattle.geo_lexer.specs.declared.token_types.Fault.{Fault}
use Rattle.geo_lexer.specs.Lexemes.{Lexeme}
use Rattle.geo_parser.specs.Forms.{Slot}
use Rattle.geo_parser.specs.Refusals.{end_fault, fault_at, first_fault}
use Rattle.geo_parser.specs.Slots.{Outcome, Reading, next, refused, taken}

-- the reading behind the lexemes and what is due there, if none of them is refused
abbrev pub walk : Reading → List Slot → List Lexeme → Option (Reading × List Slot)
walk r slots [] = Some (r, slots)
walk r slots (l ∷ ls) = elim (next r slots l) [ refused n ↦ None | taken s rest ↦ walk s rest ls ]

-- one lexeme
pub walk_taken : (r s : Reading) (slots rest : List Slot) (l : Lexeme) (ls : List Lexeme) → next r slots l ≡ taken s rest → walk r slots (l ∷ ls) ≡ walk s rest ls
walk_taken r s slots rest l ls h = ap (λ (o : Outcome). elim o [ refused n ↦ None | taken t more ↦ walk t more ls ]) h

-- where these things are due, the reader goes through these lexemes
pub record Goes (r : Reading) (due : List Slot) (lexemes : List Lexeme) (s : Reading) : Type 0 where
  pub goes : (rest : List Slot) → (more : List Lexeme) → walk r (due ++ rest) (lexemes ++ more) ≡ walk s rest more

pub Goes-none : (r : Reading) → Goes r [] [] r
Goes-none r = record { goes = λ rest more. refl }

pub Goes-token : (r s : Reading) (due : List Slot) (l : Lexeme) → ((rest : List Slot) → next r (due ++ rest) l ≡ taken s rest) → Goes r due (l ∷ []) s
Goes-token r s due l h = record { goes = λ rest more. walk_taken r s (due ++ rest) rest l more (h rest) }

pub Goes-then : (r s t : Reading) (F G : List Slot) (xs ys : List Lexeme) → Goes r F xs s → Goes s G ys t → Goes r (F ++ G) (xs ++ ys) t
Goes-then r s t F G xs ys h k = record {
  goes = λ rest more.
      ap (λ slots. walk r slots ((xs ++ ys) ++ more)) (append_assoc F G rest) ∙ ap (walk r (F ++ (G ++ rest))) (append_assoc xs ys more)
      ∙ h.goes (G ++ rest) (ys ++ more) ∙ k.goes rest more;
}

-- a lexeme that makes other things due
pub Goes-behind : (r s t : Reading) (F G : List Slot) (l : Lexeme) (xs : List Lexeme) → ((rest : List Slot) → next r (F ++ rest) l ≡ taken s (G ++ rest)) → Goes s G xs t → Goes r F (l ∷ xs) t
Goes-behind r s t F G l xs h k = record { goes = λ rest more. walk_taken r s (F ++ rest) (G ++ rest) l (xs ++ more) (h rest) ∙ k.goes rest more }

-- behind a token
abbrev walk_on : Outcome → List Lexeme → Option (Reading × List Slot)
walk_on o ls = elim o [ refused n ↦ None | taken s rest ↦ walk s rest ls ]

abbrev pub fault_on : Outcome → ℕ → List (Lexeme × ℕ) → ℕ → Option Fault → Option Fault
fault_on o place ts end stop = elim o [ refused refusal ↦ Some (fault_at place refusal) | taken s rest ↦ first_fault s rest ts end stop ]

-- what is due at the end of a walk
due_at_end : Option (Reading × List Slot) → List Slot
due_at_end None = []
due_at_end (Some p) = p.1

-- where no lexeme is refused, only the end may be
pub first_fault-walk : (r s : Reading) (slots rest : List Slot) (tokens : List (Lexeme × ℕ)) (end : ℕ)
    → walk r slots (map (λ t. t.0) tokens) ≡ Some (s, rest) → first_fault r slots tokens end None ≡ end_fault rest end None
unfolding due_at_end
first_fault-walk r s slots rest [] end h = ap (λ o. end_fault (due_at_end o) end None) h
first_fault-walk r s slots rest (t ∷ ts) end h = by (next r slots t.0) h (λ q more. first_fault-walk q s more rest ts end)
  where
    by : (o : Outcome) → walk_on o (map (λ u. u.0) ts) ≡ Some (s, rest)
        → ((q : Reading) (more : List Slot) → walk q more (map (λ u. u.0) ts) ≡ Some (s, rest) → first_fault q more ts end None ≡ end_fault rest end None)
        → fault_on o t.1 ts end None ≡ end_fault rest end None
    by (refused n) missing onward = cc
    by (taken q more) is onward = onward q more is
