use Rattle.std.proofs.Common.{◌≡◌, ◌∙◌, ◌+◌, true, List, Some, sym, ap, subst, rules, arith}
use Rattle.indexmap.specs.IndexSet.{insert_key}
use Rattle.mono_store.specs.contracts.links.LinkPartialEq.TheImpl.{eq-value}
use Rattle.mono_store.specs.declared.links.Link.{Link}
use Rattle.mono_store.specs.Words.{word_count}
use Rattle.mono_store.proofs.Interning.{IsInterned, interned, IsStore-interned, Keeps-interned, monomial_of-interned}
use Rattle.mono_store.proofs.links.linked.Goals as goal

-- the derived `==` is equality
same : (x y : Link) → (eq-value).it x y ≡ true → x ≡ y
same x y e = search rules

self : (x : Link) → (eq-value).it x x ≡ true
self x = search rules

is_interned : (links new : List Link) (link : Link) → new ≡ insert_key (eq-value).it links link → IsInterned links link new
is_interned links new link e = subst (IsInterned links link) (sym e) (interned (eq-value).it same self links link)

pub returns-clause-valid : goal.returns-clause-valid
returns-clause-valid c =
    IsStore-interned c.args.digits.now
    (is_interned c.args.links.now.keys c.insert_full.new.self.keys c.args.link c.in_ok-index.ensures.keys) c.requires.store (record {
      next = c.requires.next;
      apart = c.requires.apart;
      power = record { exponent = c.requires.exponent; first = c.requires.first; degree = c.requires.degree };
    })

pub returns-clause-kept : goal.returns-clause-kept
returns-clause-kept c =
    Keeps-interned c.args.digits.now
    (is_interned c.args.links.now.keys c.insert_full.new.self.keys c.args.link c.in_ok-index.ensures.keys)

pub returns-clause-monomial : goal.returns-clause-monomial
returns-clause-monomial c =
    let stored = c.in_ok-index.ensures.stored in
    let place : c.words-words.result + c.in_ok-index.index ≡ word_count c.args.digits.now + c.in_ok-index.index =
    omega (arith, c.words-words.ensures.count) in
    monomial_of-interned c.args.digits.now
    (is_interned c.args.links.now.keys c.insert_full.new.self.keys c.args.link c.in_ok-index.ensures.keys) c.requires.store
    (record {
      next = c.requires.next;
      apart = c.requires.apart;
      power = record { exponent = c.requires.exponent; first = c.requires.first; degree = c.requires.degree };
    })
    (record { 0 = c.words-words.result + c.in_ok-index.index }) c.in_ok-index.index place
    (stored.1 ∙ ap Some (sym (same c.args.link stored.0 stored.2)))
