-- The number and the place of a fault, of which the innermost counts, and the line that tells them. Assumes nothing.
use Rattle.std.specs.Prelude.{ℕ, List, [], ◌∷◌, ◌++◌, codes, decimal}
use Rattle.sheet.specs.declared.fault.Place.{Place}
use Rattle.sheet.specs.declared.fault.ByteFault.{ByteFault}
use Rattle.sheet.specs.declared.fault.ByteFault.TheVariants as byte_is
use Rattle.sheet.specs.declared.fault.LineFault.{LineFault}
use Rattle.sheet.specs.declared.fault.LineFault.TheVariants as line_is
use Rattle.sheet.specs.declared.fault.SheetFault.{SheetFault}
use Rattle.sheet.specs.declared.fault.SheetFault.TheVariants as sheet_is

abbrev pub byte_number : ByteFault → ℕ
byte_number byte_is.TooLong = 1
byte_number (byte_is.OtherByte p) = 2
byte_number (byte_is.NoLineFeed p) = 3

abbrev pub line_number : LineFault → ℕ
line_number (line_is.Byte b) = byte_number b
line_number (line_is.Form p) = 4

abbrev pub number_of : SheetFault → ℕ
number_of (sheet_is.Line l) = line_number l
number_of (sheet_is.Version p) = 5
number_of (sheet_is.Order p) = 6
number_of (sheet_is.UnknownFact p) = 7
number_of (sheet_is.Repeated p) = 8
number_of (sheet_is.Full p) = 9
number_of (sheet_is.NoFact p) = 10
number_of (sheet_is.Length p) = 11

abbrev pub origin : Place
origin = record { line = 0; byte = 0 }

abbrev pub byte_place : ByteFault → Place
byte_place byte_is.TooLong = origin
byte_place (byte_is.OtherByte p) = p
byte_place (byte_is.NoLineFeed p) = p

abbrev pub line_place : LineFault → Place
line_place (line_is.Byte b) = byte_place b
line_place (line_is.Form p) = p

abbrev pub place_of : SheetFault → Place
place_of (sheet_is.Line l) = line_place l
place_of (sheet_is.Version p) = p
place_of (sheet_is.Order p) = p
place_of (sheet_is.UnknownFact p) = p
place_of (sheet_is.Repeated p) = p
place_of (sheet_is.Full p) = p
place_of (sheet_is.NoFact p) = p
place_of (sheet_is.Length p) = p

-- `sheet fault`, the number, `line`, the line, `byte`, the byte, with blanks between them, and a line feed
abbrev pub fault_line : SheetFault → List ℕ
fault_line e =
    (((((codes "sheet fault " ++ decimal (number_of e)) ++ codes " line ") ++ decimal (place_of e).line) ++ codes " byte ") ++ decimal (place_of e).byte) ++ 10 ∷ []
