-- Reading tokens: the bytes before a name, and the name.
use Rattle.std.proofs.Common.{◌≡◌, ℕ, suc, ◌+◌, ◌<◌, Bool, true, false, List, [], ◌∷◌, ◌++◌, length, refl, sym, ap, subst, ◌∙◌, append_assoc, arith}
use Rattle.std.specs.BTreeSet.{insert_key}
use Rattle.std.specs.List.{fold}
use Rattle.std.proofs.lemmas.List.{append-nil, length-append}
use Rattle.geo_poly.specs.declared.variables.Var.{Var}
use Rattle.geo_poly.specs.declared.variables.Var.TheVariants.{R, S, P, X, Y, T}
use Rattle.geo_poly.specs.Polynomials.{Summands}
use Rattle.geo_poly.specs.PolynomialVariables.{variables_of}
use Rattle.geo_poly.specs.Variables.{var_cmp}
use Rattle.proof_log.specs.Inner.Reading.{Begins, NoneBegins, Passes, StopsAt, is_number_byte, is_plain_byte, variables}
use Rattle.proof_log.specs.Lines.{variable_name}
use Rattle.proof_log.specs.Lines as logs
use Rattle.proof_log.specs.Writable.{CanWritePolynomial, numbers}
use Rattle.proof_log.proofs.Unique.{letter, name_parts, variables_unique}
use Rattle.proof_printer.specs.Inner.Reading.{AreTokens, IsPast, IsReading, Tokens, byte_token, name_token, spelled, variables_in}
use Rattle.proof_printer.specs.Naming.{Naming, variable_text}
use Rattle.proof_printer.specs.Polynomials.{polynomial_text}
use Rattle.proof_printer.proofs.TokenTexts.{all_variables, log_spelled, proof_spelled, tokens_of, tokens_read}

-- a byte that is plain, and is not
plain_or_not : (b : ℕ) → is_plain_byte b ≡ true → is_plain_byte b ≡ false → ⊥
plain_or_not b h k = let f : true ≡ false = sym h ∙ k in cc

letter_not_plain : (v : Var) → is_plain_byte (letter v) ≡ false
letter_not_plain (R a b c d) = refl
letter_not_plain (S a b c) = refl
letter_not_plain (P a b c) = refl
letter_not_plain (X a) = refl
letter_not_plain (Y a) = refl
letter_not_plain (T t) = refl

-- PLAIN BYTES
-- what is left of the tokens behind these bytes
record Found (n : Naming) (rest : List ℕ) (tokens : Tokens) (plain : List ℕ) : Type 0 where
  left : Tokens
  read : AreTokens left
  spelt : rest ≡ spelled variable_name left
  whole : spelled (variable_text n) tokens ≡ plain ++ spelled (variable_text n) left
  same : variables_in tokens ≡ variables_in left

pub past : (n : Naming) (tokens : Tokens) (bytes plain rest before after : List ℕ) → AreTokens tokens → bytes ≡ spelled variable_name tokens
    → bytes ≡ plain ++ rest → Passes is_plain_byte plain → StopsAt is_plain_byte rest → after ≡ before ++ plain
    → IsPast n tokens before after rest
past n tokens bytes plain rest before after read spelt split passes stops grew =
    let found = go tokens plain read (sym spelt ∙ split) passes in
    record {
      left = found.left;
      tokens-left = found.read;
      spelt = found.spelt;
      stops = stops;
      grown = ap (λ (l : List ℕ). l ++ spelled (variable_text n) found.left) grew ∙ append_assoc before plain (spelled (variable_text n) found.left)
          ∙ ap (λ (l : List ℕ). before ++ l) (sym found.whole);
      variables = found.same;
    }
  where
    go : (tokens : Tokens) (plain : List ℕ) → AreTokens tokens → spelled variable_name tokens ≡ plain ++ rest → Passes is_plain_byte plain → Found n rest tokens plain
    go [] [] h e p = record { left = []; read = tt; spelt = sym e; whole = refl; same = refl }
    go [] (x ∷ xs) h e p = absurd (cc)
    go (byte_token b ∷ ts) [] h e p = absurd (plain_or_not b h.0 (subst (StopsAt is_plain_byte) (sym e) stops))
    go (byte_token b ∷ ts) (x ∷ xs) h e p =
        let head : b ≡ x = cc in
        let tail : spelled variable_name ts ≡ xs ++ rest = cc in
        let found = go ts xs h.1 tail p.1 in
        record {
          left = found.left;
          read = found.read;
          spelt = found.spelt;
          whole = (λ i. head i ∷ found.whole i);
          same = found.same;
        }
    go (name_token v ∷ ts) [] h e p = record { left = name_token v ∷ ts; read = h; spelt = sym e; whole = refl; same = refl }
    go (name_token v ∷ ts) (x ∷ xs) h e p =
        let begins : letter v ∷ (logs.numbers_text (numbers v) ++ spelled variable_name ts) ≡ x ∷ (xs ++ rest) =
        ap (λ (l : List ℕ). l ++ spelled variable_name ts) (sym (name_parts v)) ∙ e in
        let same : letter v ≡ x = cc in
        absurd (plain_or_not x p.0 (subst (λ (b : ℕ). is_plain_byte b ≡ false) same (letter_not_plain v)))

-- THE WHOLE TEXT
pub reading_begins : (n : Naming) (start out rest : List ℕ) (q : Summands) (keys : List Var) → keys ≡ [] → IsPast n (tokens_of q) start out rest
    → IsReading n start rest out keys q
reading_begins n start out rest q keys none h = record {
  left = h.left;
  tokens-left = h.tokens-left;
  spelt = h.spelt;
  stops = h.stops;
  printed = h.grown ∙ ap (λ (l : List ℕ). start ++ l) (proof_spelled n q);
  variables = ap (λ (ks : List Var). fold (insert_key var_cmp) ks (variables_in h.left)) none
      ∙ ap (λ (vs : List Var). fold (insert_key var_cmp) [] vs) (sym h.variables ∙ all_variables q);
}

-- the next name, and what holds behind it
pub record HasRead (n : Naming) (start out rest behind : List ℕ) (keys : List Var) (v : Var) (q : Summands) : Type 0 where
  pub tokens : Tokens
  pub read : AreTokens tokens
  pub spelt : behind ≡ spelled variable_name tokens
  pub shorter : length behind < length rest
  pub after : (named longer next : List ℕ) (more : List Var) → named ≡ out ++ variable_text n v → more ≡ insert_key var_cmp keys v
      → IsPast n tokens named longer next → IsReading n start next longer more q

pub reading_next : (n : Naming) (start out rest behind : List ℕ) (keys : List Var) (v : Var) (q : Summands) → IsReading n start rest out keys q
    → Begins variables rest v behind → HasRead n start out rest behind keys v q
reading_next n start out rest behind keys v q h named = go h.left h.tokens-left h.spelt h.printed h.variables
  where
    longer_name : (l r s : List ℕ) → l ≡ variable_name v ++ r → length r < length l
    longer_name l r s e =
        let a : length l ≡ length (variable_name v) + length r = ap length e ∙ length-append (variable_name v) r in
        let b : length (variable_name v) ≡ suc (length (logs.numbers_text (numbers v))) = ap length (name_parts v) in
        omega (arith, a, b)

    go : (left : Tokens) → AreTokens left → rest ≡ spelled variable_name left → out ++ spelled (variable_text n) left ≡ start ++ polynomial_text n q
        → fold (insert_key var_cmp) keys (variables_in left) ≡ variables_of q → HasRead n start out rest behind keys v q
    go [] r e printed vars = absurd (let none : [] ≡ letter v ∷ (logs.numbers_text (numbers v) ++ behind) =
        sym e ∙ named.spelt ∙ ap (λ (l : List ℕ). l ++ behind) (name_parts v) in cc)
    go (byte_token b ∷ ts) r e printed vars = absurd (plain_or_not b r.0 (subst (StopsAt is_plain_byte) e h.stops))
    go (name_token w ∷ ts) r e printed vars =
        let other : Begins variables rest w (spelled variable_name ts) = record { spelt = e; fits = r.0; stops = r.1 } in
        let one = variables_unique rest v w behind (spelled variable_name ts) named other in
        record {
          tokens = ts;
          read = r.2;
          spelt = one.1;
          shorter = longer_name rest behind [] named.spelt;
          after = λ grown longer next more is keys-are p. record {
            left = p.left;
            tokens-left = p.tokens-left;
            spelt = p.spelt;
            stops = p.stops;
            printed = p.grown ∙ ap (λ (l : List ℕ). l ++ spelled (variable_text n) ts) (is ∙ ap (λ (x : Var). out ++ variable_text n x) one.0)
                ∙ append_assoc out (variable_text n w) (spelled (variable_text n) ts) ∙ printed;
            variables = ap (λ (ks : List Var). fold (insert_key var_cmp) ks (variables_in p.left)) (keys-are ∙ ap (insert_key var_cmp keys) one.0)
                ∙ ap (λ (vs : List Var). fold (insert_key var_cmp) (insert_key var_cmp keys w) vs) (sym p.variables) ∙ vars;
          };
        }

-- nothing is left
pub record HasEnded (n : Naming) (start out : List ℕ) (keys : List Var) (q : Summands) : Type 0 where
  pub printed : out ≡ start ++ polynomial_text n q
  pub variables : keys ≡ variables_of q

pub reading_ends : (n : Naming) (start out rest : List ℕ) (keys : List Var) (q : Summands) → IsReading n start rest out keys q → NoneBegins variables rest
    → HasEnded n start out keys q
reading_ends n start out rest keys q h none = go h.left h.tokens-left h.spelt h.printed h.variables
  where
    go : (left : Tokens) → AreTokens left → rest ≡ spelled variable_name left → out ++ spelled (variable_text n) left ≡ start ++ polynomial_text n q
        → fold (insert_key var_cmp) keys (variables_in left) ≡ variables_of q → HasEnded n start out keys q
    go [] r e printed vars = record { printed = sym (append-nil out) ∙ printed; variables = vars }
    go (byte_token b ∷ ts) r e printed vars = absurd (plain_or_not b r.0 (subst (StopsAt is_plain_byte) e h.stops))
    go (name_token w ∷ ts) r e printed vars = absurd (none w (spelled variable_name ts) (record { spelt = e; fits = r.0; stops = r.1 }))
