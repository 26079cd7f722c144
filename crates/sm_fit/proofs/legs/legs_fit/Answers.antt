use Rattle.sm_fit.proofs.legs.legs_fit.Goals as goal

pub returns : goal.returns
returns c =
    let test = rw c.deref.ensures.value at c.in_ok-fit.ensures in (
      λ e r t a is. test.0 e r a t is,
      λ all. test.1 (λ r a t is. all r t a is),
    )
