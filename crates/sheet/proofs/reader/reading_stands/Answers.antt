use Rattle.sheet.proofs.Unique.{one_way}
use Rattle.sheet.proofs.reader.reading_stands.Goals as goal

pub returns : goal.returns
returns c = one_way
