use Rattle.std.proofs.Common.{◌*◌, ◌^◌, ◌<◌, arith}
use Rattle.sums.proofs.Products.{product_over, product_within, product_none, checked_over, checked_within}
use Rattle.sums.proofs.checked.checked_mul_u64.Goals as goal
use Rattle.sums.proofs.checked.checked_mul_u64.Goals.{else-n-ne0-via-then-n-ne0+else-x-n, else-n-ne0-via-else-n-ne0}

stays_within : (c : goal.Joined-else-n-ne0) → c.args.x * c.args.n < 2 ^ 64
stays_within c =
    elim c.else-n-ne0.branch [
      | else-n-ne0-via-then-n-ne0+else-x-n w ↦ let some = w.if-n-ne0.true in product_within c.args.x c.args.n w.if-x-n.false (omega arith)
      | else-n-ne0-via-else-n-ne0 w ↦ product_none c.args.x c.args.n w.if-n-ne0.false
    ]

pub returns-then-x-n : goal.returns-then-x-n
returns-then-x-n c =
    let some = c.if-n-ne0.true in
    checked_over (c.args.x * c.args.n) (product_over c.args.x c.args.n (omega arith) c.if-x-n.true)

pub overflow_mul-result : goal.overflow_mul-result
overflow_mul-result c = record { fits = stays_within c }

pub returns : goal.returns
returns c = checked_within (c.args.x * c.args.n) (stays_within c)
