use Rattle.paper.proofs.Image.{house_admitted, house_means}
use Rattle.image.proofs.house.house_image.Goals as goal

pub returns-clause-admitted : goal.returns-clause-admitted
returns-clause-admitted c = house_admitted

pub returns-clause-meant : goal.returns-clause-meant
returns-clause-meant c = house_means
