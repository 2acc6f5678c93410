-- What is forced is closed, and lies in every closed set.
use Rattle.model.specs.Theorems.{ForcedClosed, ForcedLeast}

pub forced_closed : ForcedClosed
forced_closed p T pins V = record {
  frame = record {
    start = λ l r h M k. k.frame.start l r h;
    goal = λ l h M k. k.frame.goal l h;
    pinned_in = λ t o r q e M k. k.frame.pinned_in t o r q e;
    pinned_out = λ t o r q e M k. k.frame.pinned_out t o r q e;
    closed = λ t o r q e M k. k.frame.closed t o r q e;
    needs = λ t o l f n M k. k.frame.needs t o l (f M k) n;
    makes = λ t o l f n M k. k.frame.makes t o l (f M k) n;
    rivals = λ t o o' r f d M k. k.frame.rivals t o o' r (f M k) d;
    stays_false = λ t l r n f M k. k.frame.stays_false t l r (λ o q m. n o q m M k) (f M k);
    was_true = λ t l r n f M k. k.frame.was_true t l r (λ o q m. n o q m M k) (f M k);
  };
  need_false = λ t o l r q n f M k. k.need_false t o l r q n (f M k);
  make_false = λ t o l r q n f M k. k.make_false t o l r q n (f M k);
  only_maker = λ t o l r q m n f g M k. k.only_maker t o l r q m (λ o' s d m'. n o' s d m' M k) (f M k) (g M k);
  clause = λ t a b v f M k. k.clause t a b v (f M k);
}

pub forced_least : ForcedLeast
forced_least p T pins V M closed m forced = forced M closed
