use Rattle.ottl_equality.proofs.Equals.{equal-lists, equal-maps}
use Rattle.ottl_equality.proofs.equality.+equality.Goals as goal

pub equal-returns-in-Array-Array : goal.equal-returns-in-Array-Array
equal-returns-in-Array-Array t c = rw (c.in-Array-Array.is-0, c.in-Array-Array.is-1, equal-lists) (rw (c.as_slice.ensures, c.as_slice-in-Array-Array.ensures) at c.lists_equal.ensures)

pub equal-returns-in-KvList-KvList : goal.equal-returns-in-KvList-KvList
equal-returns-in-KvList-KvList t c = rw (c.in-KvList-KvList.is-0, c.in-KvList-KvList.is-1, equal-maps) (rw (c.as_slice-in-KvList-KvList.ensures, c.as_slice-in-KvList-KvList-2.ensures) at c.maps_equal.ensures)
