mod OwnEnds
