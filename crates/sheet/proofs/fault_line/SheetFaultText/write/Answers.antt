use Rattle.std.proofs.Common.{decimal, sym, ap}
use Rattle.text.proofs.Writing.{writes_more, writes_same}
use Rattle.sheet.specs.declared.fault.Place.{Place}
use Rattle.sheet.proofs.fault_line.SheetFaultText.write.Goals as goal

pub returns : goal.returns
returns c =
    let n = ap decimal (sym c.number.ensures.value) in
    let l = ap (λ (p : Place). decimal p.line) (sym c.place-place.ensures) in
    let b = ap (λ (p : Place). decimal p.byte) (sym c.place-place.ensures) in
    writes_more (writes_more (writes_more (writes_more (writes_more (writes_more c.bytes.ensures (writes_same n c.number-2.ensures))
    c.bytes-2.ensures) (writes_same l c.number-3.ensures)) c.bytes-3.ensures) (writes_same b c.number-4.ensures)) c.byte.ensures
