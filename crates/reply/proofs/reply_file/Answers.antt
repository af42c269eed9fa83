-- `reply::reply_file` meets its contract: by the verdict, the line of the refusal or the lines of a good file.
use native.Mathlib.Omega.{arith}
use Rattle.bench.proofs.Checking.{statements-fit, statements-length}
use Rattle.reply.proofs.Whole.{text-refused, text-good, listed}
use Rattle.reply.proofs.reply_file.Goals as goal

pub slice_bounds-statements-end : goal.slice_bounds-statements-end
slice_bounds-statements-end c = statements-fit c.check.ensures c.in-Ok.is (omega arith)

pub slice_bounds-reply_good-end : goal.slice_bounds-reply_good-end
slice_bounds-reply_good-end c = statements-length c.check.ensures c.in-Ok.is

pub reply_good-requires : goal.reply_good-requires
reply_good-requires c = listed c.check.ensures c.in-Ok.is

pub returns-in-Err : goal.returns-in-Err
returns-in-Err c = text-refused c.check.ensures c.in-Err.is c.number.ensures c.put_refused.ensures

pub returns-in-Ok : goal.returns-in-Ok
returns-in-Ok c = text-good c.check.ensures c.in-Ok.is c.reply_good.ensures
