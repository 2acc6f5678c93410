use Rattle.model.proofs.OrderFree.{order_free}
use Rattle.model.proofs.theorems.order_free_stands.Goals as goal

pub returns : goal.returns
returns c = order_free
