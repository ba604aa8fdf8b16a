-- Terms with no factors left, each put before those that stand in order already.
use Rattle.std.proofs.Common.{◌≡◌, ℕ, ◌+◌, ◌<◌, ℤ, Option, None, Some, List, [], ◌∷◌, ◌++◌, drop, get_or, length, map, sym, ap, ap₂, subst, ◌∙◌, unsigned_abs, arith}
use Rattle.std.specs.Prelude.{IfSome, unwrap_or}
use Rattle.std.specs.List.Sorted.{IsStrictlySortedBy}
use Rattle.std.specs.declared.cmp.Ordering.TheVariants.{Less}
use Rattle.sparse_lists.specs.SparseLists.{AllKeys, IsCanonical}
use Rattle.sparse_lists.proofs.Canonical.{IsBefore_trans, canonical_self}
use Rattle.sparse_lists.proofs.Merging.{drop_at}
use Rattle.sparse_lists.specs.Coefficients.{coefficients, Pairs}
use Rattle.poly_arena.specs.Chains.{Chains, list_of, pairs_of}
use Rattle.geo_poly.specs.Chained.{keyed_terms_under}
use Rattle.geo_poly.specs.declared.pending.Pending.{Pending}
use Rattle.geo_poly.specs.declared.settings.Setting.{Setting}
use Rattle.geo_poly.specs.declared.shared.Shared.{Shared}
use Rattle.geo_poly.specs.declared.variables.Var.{Var}
use Rattle.geo_poly.specs.Inner.Factored.{IsPending, factored_terms, pieces_of, times_pieces, told_pending}
use Rattle.geo_poly.specs.Inner.Keyed.{KeepsKeys}
use Rattle.geo_poly.specs.Inner.Runs.{IsNextKey, first_key}
use Rattle.geo_poly.specs.Keys.{IsKeyUnder, Keys}
use Rattle.geo_poly.specs.Monomials.{Powers}
use Rattle.geo_poly.specs.Polynomials.{Summands, polynomial_of, term_cmp}
use Rattle.geo_poly.specs.Replace.{others}
use Rattle.geo_poly.specs.Shared.{named, told_powers}
use Rattle.geo_poly.specs.Variables.{var_cmp}
use Rattle.geo_poly.proofs.ChainPowers.{some}
use Rattle.geo_poly.proofs.KeyedChains.{keyed_terms-kept, keys-kept}
use Rattle.geo_poly.proofs.Naming.{cmp-named}
use Rattle.geo_poly.proofs.Orders.{term_order}
use Rattle.sparse_lists.proofs.Coefficients.{coefficients_add}

-- THE FIRST KEY

-- it is one of the keys
pub first_within : (vars : List Var) (keys : Keys) (first : Option ℕ) (pairs : Pairs) → first ≡ first_key pairs → AllKeys (IsKeyUnder vars keys) pairs
    → IfSome first (λ k. k < keys.count)
first_within vars keys first pairs e h = subst (λ (o : Option ℕ). IfSome o (λ k. k < keys.count)) (sym e) (go pairs h)
  where
    go : (ps : Pairs) → AllKeys (IsKeyUnder vars keys) ps → IfSome (first_key ps) (λ k. k < keys.count)
    go [] g = tt
    go (t ∷ ps) g = g.0.within

-- and stays one
pub first_kept : (old new : Keys) (first : Option ℕ) → KeepsKeys old new → IfSome first (λ k. k < old.count) → IfSome first (λ k. k < new.count)
first_kept old new None kept h = tt
first_kept old new (Some k) kept h = omega (arith, h, kept.longer)

-- that of a pair put before the others
pub first_pushed : (arena : Chains) (new chain key : ℕ) (z : ℤ) (pairs : Pairs) → new ≡ chain → list_of arena chain ≡ Some ((key, z) ∷ pairs)
    → Some key ≡ first_key (pairs_of arena new)
first_pushed arena new chain key z pairs e is = sym (ap (λ (o : Option Pairs). first_key (unwrap_or o [])) (ap (list_of arena) e ∙ is))

module _ (setting : Setting) (p : Shared) (depth : ℕ) where
  abbrev made : List Pending → Summands
  made es = factored_terms (map (told_pending setting p depth) es)

  -- ONE TERM MORE

  -- a term with no factor left becomes what is left of it
  first_term : (es : List Pending) (i : ℕ) (e : Pending) → i < length es → e ≡ get_or es i e → drop depth e.factors.now ≡ []
      → made (drop i es) ≡ (others setting.rows.now (told_powers p e.id), e.coefficient) ∷ made (drop (i + 1) es)
  first_term es i e within is none =
      let t : Powers × ℤ = (others setting.rows.now (told_powers p e.id), e.coefficient) in
      ap made (drop_at es i e within is)
      ∙ ap (λ (ks : List ℕ). times_pieces (pieces_of setting.rows.now setting.den.piece.now ks) (t ∷ []) ++ made (drop (i + 1) es)) none

  -- it stands before the others where its key does
  next_order : (keys : Keys) → IsStrictlySortedBy var_cmp setting.vars.now → (pairs : Pairs) (e : Pending) (key : ℕ)
      → IsNextKey setting p depth keys (first_key pairs) e key → IsPending setting p depth e → AllKeys (IsKeyUnder setting.vars.now keys) pairs
      → IsCanonical term_cmp coefficients (keyed_terms_under setting.vars.now keys pairs)
      → IsCanonical term_cmp coefficients ((others setting.rows.now (told_powers p e.id), e.coefficient) ∷ keyed_terms_under setting.vars.now keys pairs)
  next_order keys rising [] e key next is within order = (some (unsigned_abs e.coefficient) is.nonzero, tt, tt)
  next_order keys rising (u ∷ us) e key next is within order =
      let vars = setting.vars.now in
      let m = others setting.rows.now (told_powers p e.id) in
      let n = named vars (keys.powers u.0) in
      let less : term_cmp m n ≡ Less = subst (λ (x : Powers). term_cmp x n ≡ Less) next.powers
      (cmp-named vars rising (keys.powers u.0) (keys.powers key) within.0.places next.is_key.places ∙ next.before) in (
        some (unsigned_abs e.coefficient) is.nonzero,
        (less, IsBefore_trans term_cmp coefficients term_order coefficients_add m n (keyed_terms_under vars keys us) less order.1),
        order,
      )

  module _ (es : List Pending) (i : ℕ) (e : Pending) (within : i < length es) (is : e ≡ get_or es i e) (old new : Keys) (kept : KeepsKeys old new) (pairs : Pairs) (key : ℕ)
      (next : IsNextKey setting p depth new (first_key pairs) e key) (n : ℕ) (n-is : n ≡ i + 1) (keys : AllKeys (IsKeyUnder setting.vars.now old) pairs)
      (terms : keyed_terms_under setting.vars.now old pairs ≡ factored_terms (map (told_pending setting p depth) (drop n es))) where
    later_keys : AllKeys (IsKeyUnder setting.vars.now new) pairs
    later_keys = keys-kept setting.vars.now old new pairs kept keys

    later_terms : keyed_terms_under setting.vars.now new pairs ≡ made (drop n es)
    later_terms = keyed_terms-kept setting.vars.now old new pairs kept keys ∙ terms

    here : made (drop i es) ≡ (others setting.rows.now (told_powers p e.id), e.coefficient) ∷ made (drop n es)
    here =
        first_term es i e within is next.factors
        ∙ ap (λ (k : ℕ). (others setting.rows.now (told_powers p e.id), e.coefficient) ∷ made (drop k es)) (sym n-is)

    pub run_keys : (z : ℤ) → AllKeys (IsKeyUnder setting.vars.now new) ((key, z) ∷ pairs)
    run_keys z = (next.is_key, later_keys)

    pub run_terms : (z : ℤ) → z ≡ e.coefficient → keyed_terms_under setting.vars.now new ((key, z) ∷ pairs) ≡ factored_terms (map (told_pending setting p depth) (drop i es))
    run_terms z z-is =
        ap₂ (λ (m : Powers) (c : ℤ). (m, c) ∷ keyed_terms_under setting.vars.now new pairs) next.powers z-is
        ∙ ap (λ (ts : Summands). (others setting.rows.now (told_powers p e.id), e.coefficient) ∷ ts) later_terms
        ∙ sym here

    pub run_order : IsStrictlySortedBy var_cmp setting.vars.now → IsPending setting p depth e
        → IsCanonical term_cmp coefficients (factored_terms (map (told_pending setting p depth) (drop n es)))
        → IsCanonical term_cmp coefficients (factored_terms (map (told_pending setting p depth) (drop i es)))
    run_order rising pending order =
        subst (IsCanonical term_cmp coefficients)
        (ap (λ (ts : Summands). (others setting.rows.now (told_powers p e.id), e.coefficient) ∷ ts) later_terms ∙ sym here)
        (next_order new rising pairs e key next pending later_keys (subst (IsCanonical term_cmp coefficients) (sym later_terms) order))

  -- ALL TERMS
  pub run_whole : (es : List Pending) (i : ℕ) → i ≡ 0 → IsCanonical term_cmp coefficients (factored_terms (map (told_pending setting p depth) (drop i es)))
      → factored_terms (map (told_pending setting p depth) (drop i es)) ≡ polynomial_of (factored_terms (map (told_pending setting p depth) es))
  run_whole es i none order =
      sym (canonical_self term_cmp coefficients term_order coefficients_add (made (drop i es)) order) ∙ ap (λ (k : ℕ). polynomial_of (made (drop k es))) none
