use Rattle.std.proofs.Common.{◌++◌, ◌∙◌, [], refl}
use Rattle.proof_printer.specs.Inner.Heads.{IsDue}
use Rattle.proof_printer.specs.Inner.Names.{naming_in}
use Rattle.proof_printer.specs.Readable.{polynomial_after}
use Rattle.proof_printer.proofs.PrintedLines.{next_line, printing_begins, printing_ends}
use Rattle.proof_printer.proofs.printer.Printer.print.Goals as goal

pub loop-piece-init : goal.loop-piece-init
loop-piece-init c = (
  [],
  c.zero-before.ensures,
  printing_begins (naming_in c.args.self.now.namer) c.args.self.now.steps c.args.bytes.now _ [] c.new-out.ensures.items refl c.requires,
)

pub read_head-requires : goal.read_head-requires
read_head-requires c =
    let next = next_line (naming_in c.args.self.now.namer) c.args.self.now.steps c.args.bytes.now _ _ _ _ _ c.loop-piece.invariant.2 c.in-Some.ensures.split c.in-Some.ensures.one_line in
    (next.line, next.writable, next.spelt)

pub push_line-requires : goal.push_line-requires
push_line-requires c =
    let now = c.loop-piece.invariant in
    let next = next_line (naming_in c.args.self.now.namer) c.args.self.now.steps c.args.bytes.now _ _ _ _ _ now.2 c.in-Some.ensures.split c.in-Some.ensures.one_line in
    (now.0, next.line, record { kept = now.1; writable = next.before-writable; can = next.can }, c.in_ok-read.ensures next.line next.writable next.spelt)

pub loop-piece-preserved : goal.loop-piece-preserved
loop-piece-preserved c =
    let now = c.loop-piece.invariant in
    let next = next_line (naming_in c.args.self.now.namer) c.args.self.now.steps c.args.bytes.now _ _ _ _ _ now.2 c.in-Some.ensures.split c.in-Some.ensures.one_line in
    let due : IsDue c.args.self.now.steps c.loop-piece.before now.0 next.line = record { kept = now.1; writable = next.before-writable; can = next.can } in
    let read = c.in_ok-read.ensures next.line next.writable next.spelt in (
      polynomial_after now.0 next.line,
      c.in_ok-before.ensures.kept now.0 next.line due read,
      next.after _ _ (c.in_ok-before.ensures.text now.0 next.line due read) refl,
    )

pub returns : goal.returns
returns c =
    printing_ends (naming_in c.args.self.now.namer) c.args.self.now.steps c.args.bytes.now c.loop-piece.rest.now c.loop-piece.out.items c.loop-piece.invariant.0
    c.loop-piece.invariant.2 (c.in_default.ensures.none refl)
