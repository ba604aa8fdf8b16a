-- The commands that have a new name assume no condition.
use Rattle.std.proofs.Common.{◌≡◌, ℕ, List, None, IfSome, map, refl}
use Rattle.std.specs.List.{AllByRecursion}
use Rattle.geo_parser.specs.Inner.CommandWords.{command_condition}
use Rattle.geo_parser.specs.Texts.{found}
use Rattle.geo_parser.specs.declared.command_words.CommandWord.{CommandWord}
use Rattle.geo_parser.specs.declared.command_words.TheConstants.{COMMANDS}
use Rattle.geo_parser.proofs.Finding.{found_passes}

-- the words that begin them
abbrev pub command_table : List (List ℕ × CommandWord)
command_table = map (λ e. (e.0.now, e.1)) COMMANDS

all : AllByRecursion (λ e. command_condition e.1 ≡ None) command_table
all = (
  refl,
  (
    refl,
    (
      refl,
      (
        refl,
        (
          refl,
          (
            refl,
            (
              refl,
              (
                refl,
                (
                  refl,
                  (
                    refl,
                    (
                      refl,
                      (
                        refl,
                        (
                          refl,
                          (
                            refl,
                            (refl, (refl, (refl, (refl, (refl, (refl, (refl, (refl, (refl, (refl, (refl, tt))))))))))),
                          ),
                        ),
                      ),
                    ),
                  ),
                ),
              ),
            ),
          ),
        ),
      ),
    ),
  ),
)

pub unnamed_condition : (word : List ℕ) → IfSome (found command_table word) (λ w. command_condition w ≡ None)
unnamed_condition word = found_passes (λ w. command_condition w ≡ None) command_table word all
