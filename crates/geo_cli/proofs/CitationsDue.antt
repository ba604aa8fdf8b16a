-- What `cite` is to write, from what its call answers.
use Rattle.std.proofs.Common.{◌≡◌, ℕ, inl, inr, List, Result}
use Rattle.std.specs.Prelude.{IfOk}
use Rattle.geo_points.specs.declared.memory.NoMemory.{NoMemory}
use Rattle.geo_cli.specs.declared.reports.Report.{Report}
use Rattle.proof_printer.specs.declared.status.Status.TheVariants.{Done}
use Rattle.geo_cli.specs.declared.order.Command.TheVariants.{Cite}
use Rattle.geo_cli.specs.Due.{TellsUncited, cited_line, due_for}
use Rattle.geo_cli.specs.Inner.Telling.{due_of}
use Rattle.geo_cli.proofs.ValuesDue.{weaker}
use Rattle.geo_library.specs.declared.errors.CiteError.{CiteError}
use Rattle.geo_library.specs.Citations.{IsCitation}
use Rattle.geo_library.specs.Told.{TellsRefusal}

module _ (steps : ℕ) (bytes : List ℕ) where
  -- the bytes cite this text
  pub cited_told : (text : List ℕ) → IsCitation bytes steps text → (r : Result Report NoMemory)
      → IfOk r (λ x. due_of x ≡ record { text = cited_line text; status = Done }) → IfOk r (λ x. due_for Cite steps bytes (due_of x))
  cited_told text cites =
      weaker (λ due. due ≡ record { text = cited_line text; status = Done }) (due_for Cite steps bytes)
      (λ due is. inl (record { text = text; cites = cites; is = is }))

  -- they cite nothing
  pub uncited_told : (error : CiteError) → TellsRefusal bytes steps error → (r : Result Report NoMemory)
      → IfOk r (λ x. TellsUncited error (due_of x)) → IfOk r (λ x. due_for Cite steps bytes (due_of x))
  uncited_told error refused =
      weaker (TellsUncited error) (due_for Cite steps bytes) (λ due is. inr (record { error = error; refused = refused; is = is }))
